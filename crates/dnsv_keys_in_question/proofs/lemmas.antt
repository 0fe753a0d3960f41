-- The keys that what fails is a matter of, by numbers.
pub mod ListingLemmas
pub mod LowestLemmas
pub mod ShownKeyLemmas
