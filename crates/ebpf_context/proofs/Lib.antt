pub mod ReadBack
pub mod ReadWhole
