pub mod Common
pub mod CarriedLemmas
pub mod ItemLemmas
