-- The lines of a text one after the other leave what the plain reading says.
pub mod Lines
pub mod Readings
mod Reached
