mod SnapshotLemmas
pub mod CrashLemmas
