pub mod AlikeQuestions
pub mod AlikeZones
