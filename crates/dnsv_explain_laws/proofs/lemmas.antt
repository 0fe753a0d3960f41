-- What the laws rest on.
pub mod marks
pub mod one
pub mod stands
pub mod whole
