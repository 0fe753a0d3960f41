pub mod AppearanceLemmas
pub mod FormLemmas
pub mod LawLemmas
pub mod OneReason
pub mod OrderLemmas
