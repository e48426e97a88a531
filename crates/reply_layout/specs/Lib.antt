pub mod Pieces
pub mod Layout
pub mod Frames
pub mod Need
pub mod Runs
pub mod Gathered
pub mod Places
pub mod Worked
