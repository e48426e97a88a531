pub mod Sums
pub mod Items
pub mod Eachs
pub mod NumberedSums
