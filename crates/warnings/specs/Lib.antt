pub mod Drift
pub mod Text
pub mod Claims
pub mod Worked
pub mod code
