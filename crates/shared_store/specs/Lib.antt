pub mod Stock
pub mod Tools
pub mod Going
pub mod Making
pub mod Putting
pub mod Closing
pub mod Room
pub mod Parting
