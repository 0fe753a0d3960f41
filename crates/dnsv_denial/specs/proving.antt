-- The first proof of a denial by the evidence, and what it means.
pub mod ChainOf
pub mod FirstProof
pub mod ProofMeaning
pub mod ShownDenials
pub mod WholeChain
pub mod ZoneChains
