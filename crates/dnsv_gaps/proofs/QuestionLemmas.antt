-- What is so of a question, by what its parts are.
pub mod CloserLemmas
pub mod CutCaseLemmas
pub mod CutLemmas
pub mod DnameLemmas
pub mod GoalLemmas
pub mod ListingLemmas
pub mod SayingLemmas
