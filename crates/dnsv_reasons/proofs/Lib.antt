mod EachLemmas
mod LineLemmas
pub mod SourceLemmas
pub mod lemmas
