-- The whole-number laws that the proofs of all crates cite; docs/PROVING.md shows how to use each module.
pub mod Tests
pub mod Ring
pub mod Parts
pub mod Sizes
pub mod Equal
pub mod Machine
pub mod Chain
pub mod Tables
pub mod Arrays
pub mod Filled
pub mod All
pub mod Last
