-- Lemmas, some of which crates above cite.
pub mod RisingLemmas
pub mod WildcardAnswerLemmas
pub mod gathering
pub mod more
pub mod proving
pub mod unsigned_cuts
