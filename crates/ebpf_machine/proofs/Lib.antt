pub mod Lists
pub mod Rules
pub mod World
pub mod Instructions
pub mod WholeRuns
