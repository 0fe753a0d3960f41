-- What forms over records of a chain mean for the zone.
pub mod MeaningLemmas
pub mod Nsec3Truth
pub mod NsecTruth
