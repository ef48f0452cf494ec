-- What the report prints of a closed line, and that it fits: the report its buffer, each number its field.
pub mod Size
pub mod Bytes
pub mod Calls
pub mod Figures
pub mod Widths
pub mod Written
pub mod Reports
pub mod WholeLines
