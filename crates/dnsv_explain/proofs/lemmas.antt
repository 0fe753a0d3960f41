-- What proofs of functions and laws rest on.
pub mod telling
