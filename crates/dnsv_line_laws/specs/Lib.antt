pub mod Lower
pub mod Types
