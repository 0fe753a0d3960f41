-- Of the forms that a proof can have.
pub mod BoundLemmas
pub mod CutLemmas
pub mod DenialLemmas
pub mod EndLimitLemmas
pub mod MeaningAt
pub mod NoDataLemmas
pub mod PartsForm
pub mod ShowsLemmas
pub mod WildcardLemmas
