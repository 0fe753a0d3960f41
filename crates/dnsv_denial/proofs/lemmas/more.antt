-- More evidence proves no less.
pub mod EvidenceLemmas
pub mod FormLemmas
