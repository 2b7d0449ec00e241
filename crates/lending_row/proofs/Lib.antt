mod Moving
mod Holding
mod Steps
