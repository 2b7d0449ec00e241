pub mod Holding
pub mod Claiming
pub mod Exchanging
pub mod Passing
