pub mod Deals
pub mod Placing
pub mod Working
