pub mod Driven
pub mod Closed
pub mod Together
pub mod Worked
