pub mod Inputs
pub mod Ran
pub mod Ways
pub mod Held
pub mod Summed
