-- What the proofs of functions and the crates above cite: the tables of tests, and what an unbroken book is bounded by.
-- Worked has facts of the table of classes that nothing cites.
pub mod Tables
pub mod Parts
pub mod Unbroken
pub mod Finished
pub mod Last
pub mod Opened
pub mod Worked
