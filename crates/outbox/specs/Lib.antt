pub mod Keeping
pub mod OutboxStates
pub mod Numbering
