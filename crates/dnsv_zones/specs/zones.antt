-- What a zone is, and what it answers.
pub mod Lookup
pub mod TypeNumbers
pub mod Types
pub mod Zone
