pub mod HasReads
pub mod OneLine
pub mod Written
