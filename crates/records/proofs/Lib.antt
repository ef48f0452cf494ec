-- What the crates above cite: the refusals by their numbers.
pub mod Numbered
