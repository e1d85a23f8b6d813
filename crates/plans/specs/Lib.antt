pub mod Bits
pub mod Partial
