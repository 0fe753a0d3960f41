pub mod AnyLemmas
pub mod chains
pub mod completeness
pub mod examples
pub mod meaning
pub mod zones
