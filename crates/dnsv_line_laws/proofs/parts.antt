-- Texts in parts: where they are parted, what is not parted, and which values the parts determine.
pub mod Digits
pub mod Marks
pub mod Parting
pub mod Passing
pub mod Splitting
