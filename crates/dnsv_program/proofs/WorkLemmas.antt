-- What the work of requests comes to.
pub mod Many
pub mod Timeline
