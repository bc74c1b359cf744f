pub mod Common
pub mod HandlerLemmas
