-- What callers cite of a station: what was read, and how large its figures are where its readings are not refused.
pub mod Answered
pub mod Sizes
