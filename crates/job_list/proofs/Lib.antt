pub mod JobLists
pub mod Packing
