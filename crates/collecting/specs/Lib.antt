pub mod Gathering
pub mod Marking
