mod Rows
mod Satisfied
mod Satisfying
mod Seeks
mod Unfounded
mod Told
