pub mod Keys
pub mod Words
pub mod Parts
pub mod Tests
