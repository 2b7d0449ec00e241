mod Slots
mod Steps
mod Ending
mod Emptying
mod Swapping
