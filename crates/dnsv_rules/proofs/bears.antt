-- The lines of an explanation bear out its verdict and its aliases, and what is borne out is so.
pub mod BorneLemmas
pub mod CaseLemmas
pub mod DenialLemmas
pub mod MeaningLemmas
pub mod ToldLemmas
