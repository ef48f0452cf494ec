pub mod LineState
pub mod Rules
pub mod Records
pub mod code
