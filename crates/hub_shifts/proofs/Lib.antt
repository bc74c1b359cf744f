pub mod Common
pub mod OrderLemmas
pub mod ShiftLemmas
pub mod TellingLemmas
