-- The records of the evidence, and how those of a zone are kept.
pub mod ByZone
pub mod Evidence
pub mod EvidenceWords
pub mod Gathered
pub mod Kept
