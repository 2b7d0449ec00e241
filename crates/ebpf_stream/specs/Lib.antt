pub mod Answering
pub mod Totals
pub mod Streaming
pub mod Feeding
pub mod Serving
