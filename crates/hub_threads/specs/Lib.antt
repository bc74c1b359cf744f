pub mod Kept
pub mod Room
pub mod Served
pub mod Starts
