pub mod KnownZones
pub mod Rrsets
pub mod Signatures
