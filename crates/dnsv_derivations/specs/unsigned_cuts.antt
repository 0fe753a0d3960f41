-- The lines of a name that may be unsigned.
pub mod ShownCuts
pub mod UnsignedCuts
