-- What a text needs so that it checks.
pub mod NameLemmas
pub mod PartLemmas
pub mod RecordLemmas
pub mod SignerLemmas
