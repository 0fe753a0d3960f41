-- What is told of a verdict: its lines, and that each follows.
pub mod DerivedLemmas
pub mod RefusalLemmas
pub mod SecureLemmas
pub mod TellLemmas
