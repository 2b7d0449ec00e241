pub mod Edges
pub mod Flow
pub mod Followed
