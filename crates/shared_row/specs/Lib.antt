pub mod Spread
pub mod Weighing
pub mod Views
