pub mod Spans
pub mod Segments
pub mod Classes
