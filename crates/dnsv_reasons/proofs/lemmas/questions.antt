-- What is so of a question is one, up to where its lists lie in memory.
pub mod CaseLemmas
pub mod CloserLemmas
pub mod CutCaseLemmas
pub mod CutLemmas
pub mod GoalLemmas
pub mod HeldLemmas
pub mod ListLemmas
pub mod PartLemmas
pub mod QuestionLemmas
pub mod SourceLemmas
pub mod SpeakerLemmas
