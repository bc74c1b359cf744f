pub mod Arrivals
pub mod Ends
pub mod Lanes
pub mod Passes
pub mod Room
pub mod Telling
pub mod Work
