pub mod Settings
pub mod Meaning
pub mod Table
