-- Lemmas, some of which crates above cite.
pub mod PlaceLemmas
pub mod forms
pub mod records
pub mod words
