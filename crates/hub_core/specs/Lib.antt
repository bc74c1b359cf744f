pub mod Faults
pub mod States
pub mod Delivery
pub mod Apart
pub mod Questions
