-- That what is told is told in one way.
pub mod CutLemmas
pub mod DenialLemmas
pub mod DerivationLemmas
pub mod SignedLemmas
pub mod StepLemmas
pub mod TrustedLemmas
