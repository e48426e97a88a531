pub mod Drove
pub use Rattle.drive_script.specs.Connections
pub mod Held
pub mod Shown
