pub mod SlotsText
pub mod FaultText
pub mod AssembleText
