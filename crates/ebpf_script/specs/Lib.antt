pub mod EventCodes
pub mod ScriptFaults
pub mod CheckText
pub mod ReplayText
pub mod Coverages
pub mod RunText
