pub mod Wires
pub mod Whole
pub mod Working
pub mod Dumps
pub mod Served
pub mod Beside
pub mod Forms
pub mod Ran
