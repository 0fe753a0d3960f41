-- That no line stands twice.
pub mod DerivationLemmas
pub mod FailureLemmas
pub mod FreshLemmas
pub mod ListLemmas
pub mod OnceLemmas
pub mod ProvedLemmas
pub mod SettledLemmas
