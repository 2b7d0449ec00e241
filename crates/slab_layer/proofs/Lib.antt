pub mod Selecting
pub mod Homes
pub mod Changes
pub mod Pages
pub mod Taking
pub mod Growing
