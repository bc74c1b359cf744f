pub mod Estimates
pub mod EstimateStates
pub mod HeldLegs
