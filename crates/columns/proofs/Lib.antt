-- What other crates cite: Put (a block where there is room for it), Fields, RoundTrip and Texts (reading and writing undo each other), Lines and Records. The others serve these.
pub mod Lists
pub mod Compare
pub mod Digits
pub mod Put
pub mod Fields
pub mod FieldParts
pub mod Runs
pub mod Lines
pub mod Tags
pub mod Records
pub mod Sets
pub mod RoundTrip
pub mod Texts
pub mod Examples
