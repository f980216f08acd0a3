pub mod Ends
mod Examples
pub mod Numbers
pub mod Places
pub mod Requests
