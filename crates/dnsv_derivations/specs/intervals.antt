-- From when to when signatures are valid.
pub mod Holding
pub mod Reach
