pub mod Moment
pub mod Question
pub mod QuestionFile
pub mod QuestionsError
pub mod Subcommand
