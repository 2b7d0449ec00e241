pub mod Changes
pub mod Chosen
pub mod Words
pub mod StepText
