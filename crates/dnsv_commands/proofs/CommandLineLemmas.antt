-- What the words of a command line ask for.
pub mod Given
pub mod Numbers
pub mod Options
pub mod Rows
pub mod Values
pub mod Walks
pub mod Words
