pub mod Allowed
pub mod Folded
pub mod Sorted
pub mod Again
pub mod Worked
pub mod Fronts
pub mod Aligned
