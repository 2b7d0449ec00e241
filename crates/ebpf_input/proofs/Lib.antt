pub mod Digits
pub mod LongInputs
pub mod ObjectResponses
pub mod SourceLine
pub mod Plain
pub mod Unders
