-- Of the first proof of a denial, by a chain, a zone and the evidence.
pub mod ChainProofLemmas
pub mod RespelledZoneLemmas
pub mod FirstProofLemmas
pub mod NumberLemmas
pub mod WholeChainLemmas
pub mod ZoneChainLemmas
pub mod ZoneProofLemmas
