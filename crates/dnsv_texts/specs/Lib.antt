pub mod Checking
pub mod Told
pub mod Why
