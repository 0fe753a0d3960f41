-- The lines of denials.
pub mod FollowLemmas
pub mod FormLemmas
pub mod PartLemmas
pub mod ShownLemmas
pub mod StandingLemmas
pub mod TellingLemmas
pub mod TrustLemmas
