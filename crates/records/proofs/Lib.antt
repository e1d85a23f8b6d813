pub mod Ascending
pub mod Bodies
pub mod Counting
pub mod Judging
pub mod Rewriting
pub mod LiteralPlaces
pub mod Places
pub mod Runs
