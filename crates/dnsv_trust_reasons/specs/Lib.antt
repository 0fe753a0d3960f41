pub mod Places
pub mod TrustLines
