pub mod Beginning
pub mod Each
pub mod Together
pub mod Told
pub mod Stages
