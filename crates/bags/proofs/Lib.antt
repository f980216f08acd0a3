pub mod Piles
pub mod Rings
