pub mod Names
pub mod Carried
pub mod Acknowledged
