pub mod lemmas
pub mod meaning
