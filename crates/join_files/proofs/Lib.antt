pub mod Cuts
pub mod Taking
pub mod Texts
pub mod Flushing
