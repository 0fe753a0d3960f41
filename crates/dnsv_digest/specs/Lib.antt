pub mod Digest
pub mod DigestAlgorithm
pub mod Hmac
pub mod Nsec3Hash
