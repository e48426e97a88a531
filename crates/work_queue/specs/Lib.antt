pub mod Dealt
pub mod Room
pub mod Slots
pub mod Work
