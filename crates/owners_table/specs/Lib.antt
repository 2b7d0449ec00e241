pub mod Marking
pub mod Place
pub mod Sheets
pub mod Owning
pub mod Drawing
