-- Of what records say by their places, and by their numbers.
pub mod AllPlacesLemmas
pub mod AllSaidLemmas
pub mod AnyNameLemmas
pub mod FirstAmongLemmas
pub mod FirstLemmas
pub mod IndexLemmas
pub mod SaidWithinLemmas
pub mod SourceLemmas
