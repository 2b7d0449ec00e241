pub mod PlaceView
pub mod HandView
pub mod CacheView
pub mod Asking
pub mod Faults
pub mod Last
