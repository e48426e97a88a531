pub mod Allowed
pub mod Clean
pub mod Meant
pub mod Put
