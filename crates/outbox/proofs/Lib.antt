pub mod Common
pub mod CopyLemmas
pub mod KeyLemmas
pub mod NumberLemmas
