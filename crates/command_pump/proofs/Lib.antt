pub mod Meant
pub mod Pumped
