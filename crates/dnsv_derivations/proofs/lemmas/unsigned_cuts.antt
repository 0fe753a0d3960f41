-- The lines of a name that may be unsigned.
pub mod CutFollowLemmas
pub mod CutLemmas
pub mod CutTellLemmas
pub mod UnusableLemmas
