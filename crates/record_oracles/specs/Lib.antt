pub mod Truth
pub mod Listed
pub mod Inputs
pub mod Amounts
pub mod Sums
pub mod Tables
pub mod Weeks
