pub mod BlockLemmas
pub mod LineLemmas
pub mod LossLemmas
