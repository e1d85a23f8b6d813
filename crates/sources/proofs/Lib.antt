pub mod Arrays
pub mod Unused
