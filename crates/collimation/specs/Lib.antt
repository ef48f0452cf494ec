pub mod Collimation
