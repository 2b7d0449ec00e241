pub mod Sources
pub mod LineCounts
pub mod Nearest
pub mod SourceText
pub mod Tracefile
pub mod Traced
