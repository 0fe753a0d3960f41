pub mod Statements
pub mod StatementsError
pub mod StatementsLaws
pub mod StatementsReading
