mod CompactLemmas
mod CompactTextLemmas
mod HexLemmas
mod ListingLemmas
mod MomentsLemmas
pub mod ObjectLemmas
mod PartLemmas
pub mod ShowingLemmas
