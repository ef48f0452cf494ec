-- What the proofs of functions cite: a call's refusal in its parts, and what a call that is taken finds of the line.
pub mod Joined
