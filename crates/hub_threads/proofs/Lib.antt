pub mod Common
pub mod KeptLemmas
pub mod OrderLemmas
pub mod ThreadLemmas
