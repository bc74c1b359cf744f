pub mod Names
pub mod Rates
pub mod Words
