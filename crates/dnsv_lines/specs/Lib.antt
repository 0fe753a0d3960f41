pub mod Json
pub mod Rows
pub mod Salt
pub mod Sentence
pub mod Words
