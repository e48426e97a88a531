pub mod Opened
pub mod Joined
pub mod Passing
pub mod Closed
pub mod Together
