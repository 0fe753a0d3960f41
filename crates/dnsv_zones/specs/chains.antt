-- A zone's NSEC and NSEC3 records, and their hashes.
pub mod HashedNames
pub mod Nsec3Chain
pub mod NsecChain
pub mod Rdata
