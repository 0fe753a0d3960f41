pub mod Program
pub mod Run
pub mod Timeline
