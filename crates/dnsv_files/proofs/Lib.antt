pub mod FileLemmas
pub mod OpeningLemmas
