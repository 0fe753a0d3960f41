-- The index of RRsets: their order, how groups lie, the search, and how it grows.
pub mod Growth
pub mod InOrder
pub mod Layout
pub mod Merging
pub mod Search
