-- What is so under a hope.
pub mod HopedLemmas
pub mod LineLemmas
