-- Floats that equal whole numbers, the bytes that are written, what is refused, and what is claimed of closed books and of texts.
pub mod Floats
pub mod Written
pub mod Refused
pub mod Calls
