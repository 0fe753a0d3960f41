pub mod AnswerLemmas
pub mod IndexLemmas
pub mod OnceLemmas
pub mod TagLemmas
pub mod VoucherLemmas
pub mod ZoneKeyLemmas
