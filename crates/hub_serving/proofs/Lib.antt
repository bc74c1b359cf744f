pub mod Common
pub mod JournaledLemmas
pub mod OnlyLemmas
pub mod PlaceLemmas
