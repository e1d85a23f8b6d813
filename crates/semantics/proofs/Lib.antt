pub mod Facts
pub mod Reduct
pub mod Seeking
pub mod Verdicts
pub mod Checks
