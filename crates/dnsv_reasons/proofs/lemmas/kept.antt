-- What is told by what is kept of zones and of a question.
pub mod KeptKeys
pub mod KeptLines
pub mod KeptOnce
pub mod KeptRemedies
pub mod KeptTold
pub mod KeptWays
pub mod KeptZones
