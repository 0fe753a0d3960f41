pub mod Ends
pub mod Unmet
pub mod truth
