pub mod Answers
pub mod Hosts
pub mod Metrics
pub mod Requests
