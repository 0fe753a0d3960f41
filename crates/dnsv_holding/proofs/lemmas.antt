-- What proofs of functions and laws rest on.
pub mod marks
pub mod telling
