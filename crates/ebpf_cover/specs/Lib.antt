pub mod Covered
pub mod Stretches
pub mod Tallies
pub mod Exchange
pub mod Answering
