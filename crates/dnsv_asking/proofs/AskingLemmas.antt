-- The answers to many questions, one after another.
pub mod Files
pub mod Steps
