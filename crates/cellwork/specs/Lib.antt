pub mod Becoming
pub mod Emptied
