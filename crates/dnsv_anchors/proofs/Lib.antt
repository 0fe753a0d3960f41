pub mod AnchorLaws
pub mod ByOwnerLemmas
pub mod HexFieldLemmas
pub mod UsableLemmas
