pub mod CheckTextLemmas
pub mod PoolLemmas
pub mod RunLemmas
