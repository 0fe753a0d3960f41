pub mod Dnskeys
pub mod Groups
pub mod Zones
