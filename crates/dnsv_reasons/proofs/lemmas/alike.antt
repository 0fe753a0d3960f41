-- When two lines say the same of a question.
pub mod AlikeLines
pub mod AlikeSaid
