mod Codes
mod Led
mod Slotwise
mod Pointed
mod Away
mod Traced
mod Added
mod Chosen
