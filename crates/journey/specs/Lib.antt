pub mod Words
pub mod Stages
pub mod Legs
pub mod JourneyStates
pub mod Checks
pub mod Journey
pub mod NewestLegs
pub mod TrackStates
