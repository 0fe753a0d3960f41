-- Reading the files of a request, and their faults.
pub mod Anchors
pub mod Answers
pub mod Capture
pub mod Faults
pub mod Questions
pub mod Statements
pub mod Text
