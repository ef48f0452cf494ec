pub mod Repeat
pub mod Claims
pub mod Worked
