pub mod TableStates
pub mod Acceptance
pub mod Changes
pub mod GoingOn
