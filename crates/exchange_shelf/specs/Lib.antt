pub mod Passing
pub mod Views
