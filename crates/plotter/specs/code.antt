-- What only contracts and proofs use: no other file of specs/ does.
pub mod Reached
