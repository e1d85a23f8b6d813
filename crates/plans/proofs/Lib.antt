pub mod FromFn
pub mod Bits
pub mod Partial
