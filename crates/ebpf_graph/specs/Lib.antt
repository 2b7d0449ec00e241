pub mod Blocks
pub mod Conditions
pub mod Graph
pub mod Drawn
