pub mod Common
pub mod PathLemmas
