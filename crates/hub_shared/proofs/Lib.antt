pub mod Common
pub mod MarkLemmas
pub mod OrderLemmas
