pub mod Replies
pub mod Bounds
pub mod Weights
pub mod Distinct
pub mod Calendar
pub mod Spelled
