-- That what is told is told in one way.
pub mod FailureLemmas
pub mod OneKeyLemmas
pub mod WholeLemmas
