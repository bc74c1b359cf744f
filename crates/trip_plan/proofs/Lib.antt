pub mod WagonLemmas
