pub mod Bounds
pub mod Files
pub mod Opening
pub mod Status
pub mod Told
