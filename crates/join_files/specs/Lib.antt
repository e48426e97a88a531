pub mod Cutting
pub mod Joined
pub mod Source
pub mod Texts
