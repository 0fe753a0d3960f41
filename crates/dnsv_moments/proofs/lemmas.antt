-- What proofs of the rooms rest on.
pub mod texts
pub mod validity
