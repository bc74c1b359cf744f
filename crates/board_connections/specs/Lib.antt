pub mod AcceptErrors
pub mod Answers
pub mod Client
pub mod LimitedService
pub mod Waiting
