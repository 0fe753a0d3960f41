-- The text of a timeline, and the intervals that it tells.
pub mod Borders
pub mod Following
pub mod Pieces
pub mod Shown
pub mod Text
