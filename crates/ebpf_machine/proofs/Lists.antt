-- Lists: what holds of any.
pub mod ListLemmas
pub mod Mapped
