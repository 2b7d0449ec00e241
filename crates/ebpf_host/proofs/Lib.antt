pub mod Stocking
pub mod ByKind
pub mod CutOff
pub mod Leaving
pub mod Finding
pub mod Forwarding
pub mod Beginning
pub mod OnContexts
