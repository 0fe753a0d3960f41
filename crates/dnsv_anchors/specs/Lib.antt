pub mod Anchor
pub mod AnchorFile
pub mod AnchorsError
pub mod ByOwner
pub mod Ds
pub mod HexField
