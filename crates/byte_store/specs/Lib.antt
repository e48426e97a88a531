pub mod Table
pub mod Store
