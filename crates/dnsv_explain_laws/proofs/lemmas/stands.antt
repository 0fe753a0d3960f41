-- What is shown stands wherever the signatures count that are told of it.
pub mod WayLemmas
pub mod WholeLemmas
