pub mod Spans
pub mod Wraps
pub mod OperationLemmas
pub mod RowLemmas
pub mod ResultLemmas
pub mod RefinementLemmas
