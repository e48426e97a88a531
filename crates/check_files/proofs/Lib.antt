pub mod Given
pub mod Since
pub mod ReadTo
pub mod Places
pub mod Names
pub mod Pairs
pub mod OpenedFiles
pub mod Answered
