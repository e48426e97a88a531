pub mod Decimals
pub mod EntryLines
pub mod HasReads
pub mod LinesOf
pub mod OneText
pub mod Places
pub mod Placing
pub mod Written
