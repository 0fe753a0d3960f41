-- Of the index of NSEC3 records by their hashes.
pub mod HashCountLemmas
pub mod HashIndexLemmas
pub mod HashLemmas
pub mod HashPlaceLemmas
pub mod OrderedLemmas
pub mod ParametersLemmas
