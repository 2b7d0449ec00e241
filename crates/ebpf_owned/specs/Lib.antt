pub mod Claims
pub mod Exchanges
