-- Of what holds: that it is told in one way, what is so under a hope, and what stands wherever its signatures count.
pub mod EachLemmas
pub mod FollowingLemmas
pub mod MemberLemmas
pub mod marks
pub mod one
pub mod stands
