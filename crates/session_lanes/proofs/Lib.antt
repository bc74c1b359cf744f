pub mod Common
pub mod CarriedLemmas
pub mod FallLemmas
pub mod PassLemmas
pub mod PlaceLemmas
pub mod SessionLemmas
pub mod TellingLemmas
