-- What is asked of records, and which of them say so.
pub mod Asked
pub mod ChainSaid
pub mod SaidAt
