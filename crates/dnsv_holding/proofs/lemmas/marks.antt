-- What is so where just the entries are valid that the lines of a hope mark.
pub mod HopeLemmas
pub mod HopedWayLemmas
