pub mod Report
pub mod Fits
pub mod Worked
pub mod Claims
pub mod code
