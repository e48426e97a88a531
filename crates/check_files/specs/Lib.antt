pub mod Whole
pub mod File
pub mod Files
pub mod Stopped
pub mod Judged
pub mod Named
pub mod Answer
