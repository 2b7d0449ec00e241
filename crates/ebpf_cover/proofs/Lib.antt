pub mod Nothing
pub mod Stretching
pub mod Numbering
pub mod GoingOn
pub mod Counting
pub mod Summing
