pub mod Names
pub mod Mnemonics
pub mod Operands
pub mod Listing
