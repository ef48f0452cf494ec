pub mod Station
pub mod code
