pub mod SaidLemmas
pub mod StatementLemmas
pub mod StatementsLemmas
