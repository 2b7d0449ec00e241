pub mod Kinds
pub mod Abstract
pub mod Ascending
pub mod Words
pub mod StateView
pub mod States
pub mod References
pub mod Stack
