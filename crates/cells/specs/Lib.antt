pub mod Codes
pub mod Memory
pub mod Rows
pub mod Stretch
