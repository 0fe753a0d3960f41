pub mod AlikeLemmas
pub mod CaseLemmas
mod MeaningLemmas
pub mod OfCase
pub mod OneProof
pub mod ReportLemmas
pub mod SearchLemmas
pub mod SettledLemmas
mod SharedLemmas
mod SureLemmas
mod TrailLemmas
mod TrustLemmas
pub mod UnknownLemmas
pub mod WayLemmas
