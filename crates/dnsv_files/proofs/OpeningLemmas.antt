-- What frames are opened by, and what they hold.
pub mod Frames
pub mod Keys
pub mod Macs
