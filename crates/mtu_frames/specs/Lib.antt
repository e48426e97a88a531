pub mod Frames
pub mod Reading
pub mod Joining
pub mod Held
pub mod Kept
pub mod Puts
pub mod Texts
