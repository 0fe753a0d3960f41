-- Of the records that are gathered from the evidence.
pub mod AlikeLemmas
pub mod ByZoneLemmas
pub mod EvidenceLemmas
pub mod FilterLemmas
pub mod GatherLemmas
pub mod GatherZoneLemmas
pub mod Gathering
pub mod Nsec3Gather
pub mod NsecGather
pub mod NumberedLemmas
pub mod NameHashesLemmas
pub mod SignerLemmas
