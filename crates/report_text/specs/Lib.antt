pub mod Pieces
pub mod Report
