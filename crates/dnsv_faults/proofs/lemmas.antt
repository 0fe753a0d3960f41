pub mod KnownLemmas
pub mod NamedLemmas
pub mod OrderLemmas
