pub mod HeldLists
pub mod HeldPlaces
pub mod JoinLists
pub mod JoinOrder
pub mod SameHeld
pub mod Stacks
