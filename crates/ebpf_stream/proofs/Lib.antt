pub mod AnswerLemmas
pub mod LineLemmas
pub mod FeedLemmas
pub mod ServeLemmas
pub mod EndLemmas
pub mod RespondLemmas
pub mod TopLemmas
