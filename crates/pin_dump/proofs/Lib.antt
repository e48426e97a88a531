pub mod Texts
pub mod GivenBack
pub mod Emptied
pub mod Flushed
pub mod TakenShards
pub mod SeenTaken
pub mod PutSteps
