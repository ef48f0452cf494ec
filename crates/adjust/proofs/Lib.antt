-- What callers cite: Lines, the adjustment's theorem in any units; Refused, Taken and Legs, the adjustment call; Holding, sections in an array, and Arrays, more of them than it has places; Kept, the sums that a line keeps of them; Fitting, figures that fit; Lists, Sized and Bounded, the
-- sizes of their figures; Classes, the table of classes.
pub mod Classes
pub mod Lines
pub mod Lists
pub mod Bounded
pub mod Sized
pub mod Holding
pub mod Arrays
pub mod Kept
pub mod Fitting
pub mod Legs
pub mod Refused
pub mod Taken
