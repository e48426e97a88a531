pub mod Input
pub mod Generated
pub mod Rows
pub mod Sessions
