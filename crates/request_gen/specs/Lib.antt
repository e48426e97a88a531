pub mod Commands
pub mod Draws
pub mod Requests
pub mod Words
