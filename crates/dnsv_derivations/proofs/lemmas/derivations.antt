-- Derivations, and how they are looked for.
pub mod ClimbLemmas
pub mod DerivationLemmas
pub mod HeldLemmas
pub mod OwnLemmas
pub mod SignerLemmas
pub mod SignersAtLemmas
pub mod ValidLemmas
pub mod WayLemmas
