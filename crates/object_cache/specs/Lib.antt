pub mod HandView
pub mod CacheView
pub mod ShelfView
