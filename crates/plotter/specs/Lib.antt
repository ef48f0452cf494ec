pub mod Floats
pub mod Profile
pub mod Text
pub mod Claims
pub mod Worked
pub mod code
