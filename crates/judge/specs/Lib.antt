pub mod CallFaults
pub mod Ways
pub mod Search
pub mod Outcome
