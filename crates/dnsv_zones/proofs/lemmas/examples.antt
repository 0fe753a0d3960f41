-- Of the examples.
pub mod Example
pub mod OptOutExample
