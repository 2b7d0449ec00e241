pub mod ContextText
