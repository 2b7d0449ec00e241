pub mod Answering
pub mod ByKind
pub mod Keeping
pub mod Parting
pub mod Replying
pub mod Together
