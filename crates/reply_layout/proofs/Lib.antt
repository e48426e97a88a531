pub mod Texts
pub mod Fits
pub mod Copies
pub mod Lines
pub mod Modest
pub mod Worked
