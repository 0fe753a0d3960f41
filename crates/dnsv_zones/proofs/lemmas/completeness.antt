-- That whole chains prove each denial of the zone.
pub mod Nsec3Complete
pub mod NsecComplete
