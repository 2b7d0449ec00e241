pub mod Homes
pub mod Reaping
pub mod Moving
