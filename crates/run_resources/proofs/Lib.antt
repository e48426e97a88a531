pub mod Opening
pub mod Joining
pub mod Passes
pub mod SessionSlots
pub mod Dumps
pub mod Ends
pub mod Lists
pub mod Numbers
