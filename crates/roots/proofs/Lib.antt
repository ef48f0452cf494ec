-- What callers cite of rounding and of root limits: RoundLaws and LimitLaws. Floor and Division serve the proofs of this crate.
pub mod Floor
pub mod RoundLaws
pub mod LimitLaws
pub mod Division
