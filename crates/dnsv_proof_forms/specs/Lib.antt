pub mod KeptHashes
pub mod QuestionHashes
pub mod forms
pub mod records
pub mod words
