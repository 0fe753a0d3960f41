-- What records say of names, and the forms of proof over that.
pub mod Forms
pub mod Nsec
pub mod Nsec3
pub mod Parts
pub mod RecordWords
pub mod Said
