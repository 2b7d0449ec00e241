pub mod Responses
pub mod Explanations
pub mod Plain
pub mod Linked
pub mod DataRows
