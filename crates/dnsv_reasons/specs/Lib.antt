pub mod Failures
pub mod Lines
pub mod SourceSearch
pub mod Sources
pub mod laws
