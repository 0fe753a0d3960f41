pub mod Any
pub mod chains
pub mod examples
pub mod forms
pub mod zones
