pub mod AnswerFile
pub mod Answered
pub mod AnswersError
pub mod Heading
