pub mod CompactList
pub mod Named
pub mod ReadBack
pub mod Signed
