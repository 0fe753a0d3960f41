-- What proofs and cuts mean for zones, and what whole chains prove: lemmas that crates above cite too.
pub mod CutMeaningLemmas
pub mod DeniedMeaning
pub mod JustChainProofs
pub mod ProofMeaningLemmas
pub mod WholeChainProofs
