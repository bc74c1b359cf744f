pub mod Common
pub mod SideLemmas
pub mod ClosedLemmas
