pub mod holding
pub mod lemmas
