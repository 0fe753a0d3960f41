-- What proofs of functions and laws rest on.
pub mod AnswerLemmas
pub mod IndexLemmas
pub mod NumberedLemmas
pub mod OneListLemmas
pub mod PlaceLemmas
pub mod RisingLemmas
pub mod SayingLemmas
pub mod TodoLemmas
pub mod denials
pub mod derivations
pub mod intervals
pub mod one
pub mod unsigned_cuts
