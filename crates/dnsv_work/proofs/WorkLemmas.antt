-- What is so of the files that were taken, and of what is listed and shown of them.
pub mod InOrder
pub mod Known
pub mod Listing
pub mod Range
pub mod Showing
