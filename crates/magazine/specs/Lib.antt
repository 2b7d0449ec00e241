pub mod LayerView
pub mod DepotView
