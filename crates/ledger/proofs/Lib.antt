-- What is proved of every list of calls.
pub mod Follows
pub mod Lowest
pub mod Drops
pub mod Runs
pub mod Kept
pub mod Every
pub mod Again
pub mod Traced
pub mod Entries
pub mod Cancel
pub mod Exact
