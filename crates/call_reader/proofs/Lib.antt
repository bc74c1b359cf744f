pub mod Common
pub mod EachLemmas
pub mod KeptLemmas
pub mod SentLemmas
