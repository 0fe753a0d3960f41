-- What a text that checks says is true.
pub mod FormLemmas
pub mod RecordLemmas
pub mod TrueLemmas
pub mod WordLemmas
