pub mod Said
pub mod Padded
pub mod Reports
