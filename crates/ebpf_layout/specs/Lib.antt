pub mod Paths
pub mod EdgeFaults
pub mod Layout
pub mod Refusal
pub mod Running
pub mod Search
pub mod Placing
pub mod Writing
