pub mod Text
pub mod code
