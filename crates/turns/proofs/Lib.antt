pub mod Checked
pub mod Drawing
pub mod Returning
pub mod Statuses
