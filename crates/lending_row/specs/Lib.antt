pub mod Lending
pub mod Views
