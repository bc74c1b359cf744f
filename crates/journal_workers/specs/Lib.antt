pub mod Looks
pub mod Work
