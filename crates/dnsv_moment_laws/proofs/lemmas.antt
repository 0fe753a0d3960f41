-- What the laws rest on.
pub mod AlikeLemmas
pub mod OneSaidLemmas
pub mod OneTextLemmas
pub mod VerifierLemmas
pub mod WithinLemmas
