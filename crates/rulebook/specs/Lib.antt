pub mod BookFaults
pub mod Books
pub mod Rules
