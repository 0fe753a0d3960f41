-- Of chains, and what their records say.
pub mod BitmapLemmas
pub mod ChainLemmas
pub mod MoreLemmas
pub mod NsecLemmas
