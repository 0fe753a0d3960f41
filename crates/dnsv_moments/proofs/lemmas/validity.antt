-- What is said at one moment is said at each at which the same signatures are valid.
pub mod DerivationLemmas
pub mod MomentLemmas
pub mod SaidLemmas
pub mod ToldLemmas
