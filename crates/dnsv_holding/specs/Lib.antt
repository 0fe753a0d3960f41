pub mod At
pub mod Derived
pub mod Explained
pub mod Holding
pub mod Judged
pub mod Marked
pub mod OnWay
pub mod SharedWays
