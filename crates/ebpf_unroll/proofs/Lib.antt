pub mod Copied
pub mod Runs
pub mod Moves
pub mod Names
pub mod Named
pub mod Endings
pub mod Leading
pub mod Writing
