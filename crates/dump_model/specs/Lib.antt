pub mod Dump
pub mod Worked
pub mod Seen
