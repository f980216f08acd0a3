pub mod Holding
pub mod Manners
pub mod Refusals
pub mod Rounds
pub mod Stacks
