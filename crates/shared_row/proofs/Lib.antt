pub mod Lists
pub mod Parts
mod Slots
mod Steps
mod Ending
