-- The run of a text, what the numbers name, the five cases of a judgement, and that a longer text is no run.
mod Reached
pub mod Named
pub mod Cases
pub mod Long
