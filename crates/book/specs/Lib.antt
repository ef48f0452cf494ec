pub mod Calls
pub mod code
