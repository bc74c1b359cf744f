pub mod Common
pub mod ListLemmas
pub mod StepLemmas
pub mod CloseLemmas
pub mod LaneLemmas
