-- What is proved of warnings.
pub mod Found
pub mod Warned
pub mod Texts
pub mod Lines
pub mod Every
