pub mod Broken
pub mod Pump
