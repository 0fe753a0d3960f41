pub mod Examples
pub mod Joined
pub mod Points
pub mod Range
pub mod Timeline
pub mod Window
