pub mod Interval
pub mod Results
pub mod Refinements
