pub mod Total
pub mod Numbered
pub mod Changes
