pub mod Arrays
pub mod Digits
