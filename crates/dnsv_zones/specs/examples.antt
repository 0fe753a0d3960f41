-- A small zone with its chains, for which the premises of laws are met.
pub mod Example
pub mod OptOutExample
