pub mod Base32Lemmas
pub mod BitmapLemmas
pub mod BlockLemmas
pub mod RecordLemmas
pub mod OneRecord
pub mod Decided
