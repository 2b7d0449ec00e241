pub mod KindName
pub mod Object
pub mod Offer
