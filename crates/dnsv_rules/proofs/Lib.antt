pub mod bears
pub mod checks
pub mod needs
pub mod truth
