pub mod ProgramLemmas
pub mod WorkLemmas
