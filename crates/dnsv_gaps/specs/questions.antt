-- What is so of a question.
pub mod CloserSearch
pub mod Closers
pub mod CutSearch
pub mod Cuts
pub mod Dnames
pub mod Goals
pub mod Listing
pub mod Questions
