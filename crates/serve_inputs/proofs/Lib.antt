pub mod Dumping
pub mod NewJobs
pub mod Places
pub mod Runs
pub mod Told
pub mod Whole
mod Many
mod Sending
mod Dumps
