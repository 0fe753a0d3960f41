-- When what is said to fail is so: each word is true just where its definition holds.
pub mod Entries
pub mod Keys
pub mod Question
pub mod Reasons
pub mod Signatures
pub mod Sources
pub mod Zones
