pub mod Passing
pub mod InTurn
pub mod InRange
pub mod Holding
pub mod Unloading
pub mod Viewing
pub mod Giving
