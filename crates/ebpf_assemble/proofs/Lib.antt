pub mod Lines
pub mod Assembling
