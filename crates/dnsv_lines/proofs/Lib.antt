pub mod JsonLemmas
pub mod MemberLemmas
