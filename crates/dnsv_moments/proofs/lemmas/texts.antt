-- The text of a timeline, piece by piece.
pub mod PieceLemmas
pub mod ShownLemmas
pub mod TextLemmas
