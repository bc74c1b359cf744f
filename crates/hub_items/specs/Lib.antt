pub mod Notices
pub mod Transitions
pub mod MessageItems
