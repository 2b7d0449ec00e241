pub mod Nexts
pub mod Counting
pub mod Numbers
pub mod Sourced
pub mod Written
pub mod Sums
pub mod Totalling
