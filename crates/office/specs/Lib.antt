pub mod Faults
pub mod Walk
pub mod Sections
pub mod Runs
pub mod Bad
pub mod Added
pub mod Held
pub mod Printed
