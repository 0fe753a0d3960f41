mod ListLemmas
mod OneLemmas
mod OwnerLemmas
mod ReadLemmas
