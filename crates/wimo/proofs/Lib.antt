pub mod Common
pub mod RecordEventLemmas
