pub mod LawLemmas
pub mod OpenedLemmas
pub mod PlaceLemmas
mod QuestionLemmas
pub mod ReachedLemmas
mod TakenLemmas
pub mod WorkLemmas
