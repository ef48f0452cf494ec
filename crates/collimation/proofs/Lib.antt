-- What the proofs of functions and the crates above cite: the sizes of values in their ranges, and that a refusal of the ranges is one of the test. Worked has facts that nothing cites.
pub mod Sizes
pub mod Told
pub mod Worked
