pub mod Views
pub mod Laying
pub mod Tickets
