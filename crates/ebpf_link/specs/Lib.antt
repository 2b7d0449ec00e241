pub mod Linking
pub mod Written
pub mod Pointing
pub mod Apart
pub mod Words
pub mod Right
pub mod Choice
