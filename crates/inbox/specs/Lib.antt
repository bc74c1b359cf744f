pub mod Interleavings
pub mod Rules
pub mod States
pub mod Sessions
