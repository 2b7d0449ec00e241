pub mod Bits
pub mod Places
pub mod Tiling
pub mod Outs
pub mod Runs
pub mod Listing
pub mod Steps
