pub mod Common
pub mod HandlerLemmas
pub mod OrderLemmas
pub mod RegroupLemmas
