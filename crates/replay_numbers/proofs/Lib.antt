pub mod Common
pub mod SentRowLemmas
pub mod SentLemmas
pub mod PlaceLemmas
