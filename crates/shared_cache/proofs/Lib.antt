mod Rows
mod Notes
mod Moving
mod Weights
