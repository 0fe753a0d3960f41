mod AskingLemmas
mod CheckingLemmas
pub mod JudgedLemmas
