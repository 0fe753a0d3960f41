pub mod AnswerLaws
pub mod AnswerLemmas
pub mod Decisions
pub mod KeyLaws
pub mod KeyLemmas
pub mod KeyNamesLemmas
pub mod SomeAnswer
pub mod TsigLemmas
