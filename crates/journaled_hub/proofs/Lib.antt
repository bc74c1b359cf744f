mod LineLemmas
pub mod FaultLemmas
mod HistoryLemmas
mod AnsweringLemmas
mod WholeLineLemmas
pub mod DiskLemmas
mod AheadLemmas
mod RunFaultLemmas
pub mod CrashLemmas
