pub mod Kinds
pub mod Images
pub mod Stacks
pub mod Slots
pub mod PartialStack
pub mod SlabTable
pub mod Growth
