pub mod Borne
pub mod Checked
pub mod Explained
pub mod Planted
pub mod Told
pub mod Truth
