pub mod Asking
pub mod Checking
pub mod Judging
