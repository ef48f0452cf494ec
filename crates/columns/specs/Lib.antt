pub mod Ascii
pub mod Buffers
pub mod Decimals
pub mod Lines
pub mod Records
pub mod Texts
pub mod code
