-- What laws of what fails speak of.
pub mod Anchors
pub mod Once
