-- Of the names from which on a question may be unsigned.
pub mod FindingLemmas
pub mod OptOutNextCloserLemmas
pub mod ShownCutLemmas
pub mod ShownLemmas
