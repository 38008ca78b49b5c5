pub mod Rows
pub mod Raised
pub mod Further
pub mod Fresh
pub mod Second
pub mod Compose
