pub mod Shelving
pub mod Slots
pub mod Granting
pub mod Standing
