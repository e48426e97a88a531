pub mod Ran
pub mod Dumped
pub mod Orders
pub mod Wires
pub use Rattle.session_serve.specs.Whole
pub mod Jobs
