-- What is said of a question at a moment, and which signatures it depends on.
pub mod Kinds
pub mod Said
pub mod SameValid
