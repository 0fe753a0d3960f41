-- The records of one chain, as the definitions of proofs read them.
pub mod AskedHash
pub mod HashIndex
pub mod HashWords
pub mod Numbers
pub mod ParametersOrder
pub mod Record
pub mod RecordsAt
