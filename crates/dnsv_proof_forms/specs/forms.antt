-- Denials, and which records of one chain make their forms.
pub mod ByWildcard
pub mod Denials
pub mod EndLimits
pub mod EndPlace
pub mod ProofForms
pub mod ProofParts
pub mod ShownUnsigned
