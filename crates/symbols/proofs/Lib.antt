pub mod Loans
pub mod LayingOut
pub mod Lawfulness
