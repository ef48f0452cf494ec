pub mod Plain
pub mod Entries
pub mod Claims
pub mod Trace
pub mod Exact
pub mod Worked
