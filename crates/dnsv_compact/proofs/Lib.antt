pub mod KeyLemmas
pub mod NamedLemmas
pub mod NumberedLemmas
pub mod PlaceLemmas
pub mod SignedLemmas
