pub mod Viewed
pub mod WildcardAnswers
pub mod gathering
pub mod proving
pub mod unsigned_cuts
