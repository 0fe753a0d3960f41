pub mod GroupLemmas
pub mod zones
