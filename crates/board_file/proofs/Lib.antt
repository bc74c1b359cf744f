pub mod SeenLemmas
pub mod EscapeLemmas
