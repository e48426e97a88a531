pub mod Fragments
pub mod Plain
