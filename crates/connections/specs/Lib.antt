pub mod Guards
pub mod Requests
