mod Histories
mod Stored
mod Reached
mod Unstored
mod Counted
mod Stocked
mod Gathering
pub mod Imaged
mod Seating
