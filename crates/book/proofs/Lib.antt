-- What the proofs of functions and the crates above cite: how a call's change and outcome are joined, and the figures of a line that may be closed.
pub mod Joined
pub mod Closable
