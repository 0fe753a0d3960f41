pub mod AnswerLaws
pub mod AnswerLemmas
pub mod AnsweredLaws
pub mod AnsweredLemmas
pub mod DecimalLemmas
pub mod DigestLemmas
pub mod HeadingLemmas
