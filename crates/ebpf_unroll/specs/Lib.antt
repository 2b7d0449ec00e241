pub mod Unrolling
pub mod Counting
pub mod Ending
pub mod Refusal
pub mod Written
pub mod Branches
