pub mod Common
pub mod LineLemmas
pub mod StreamLemmas
pub mod RunLemmas
pub mod CountLemmas
