pub mod Common
pub mod HistoryLemmas
pub mod SendLemmas
pub mod ItemLemmas
