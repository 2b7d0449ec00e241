pub mod Loading
pub mod Sentences
