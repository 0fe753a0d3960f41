-- Of zones, their nodes, and what they answer.
pub mod AnswerLemmas
pub mod LookupLemmas
pub mod ZoneLemmas
