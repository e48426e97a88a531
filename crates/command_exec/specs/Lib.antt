pub mod Passes
pub mod Executed
pub mod Kinds
pub mod Lines
pub mod Alike
pub mod Running
pub mod Parted
pub mod Lending
