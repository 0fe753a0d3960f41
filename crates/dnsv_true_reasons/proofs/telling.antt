pub mod Says
pub mod SaysOwn
pub mod SaysParts
pub mod SaysQuestion
pub mod SaysZones
