pub mod Building
pub mod Refusals
pub mod Replies
