-- From when to when signatures are valid, and lines follow.
pub mod CircleLemmas
pub mod HoldingLemmas
pub mod MomentLemmas
pub mod ShownLemmas
