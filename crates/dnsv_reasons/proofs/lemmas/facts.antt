-- The facts of a question are one.
pub mod AnswerLemmas
pub mod DnskeyLemmas
pub mod ListLemmas
pub mod OrderLemmas
pub mod RrsetLemmas
pub mod SignatureLemmas
pub mod VoucherLemmas
pub mod ZoneLemmas
