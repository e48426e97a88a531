pub mod Dumps
pub mod Taken
