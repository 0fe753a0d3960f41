-- That what is told is told in one way.
pub mod DerivationLemmas
pub mod FormLemmas
pub mod HoldingLemmas
pub mod PlaceLemmas
pub mod ShownLemmas
