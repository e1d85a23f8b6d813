pub mod Program
pub mod Judge
pub mod Check
pub mod Theorems
pub mod Examples
