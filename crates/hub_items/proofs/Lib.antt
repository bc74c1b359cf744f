pub mod Common
pub mod NewsLemmas
pub mod PlanLemmas
pub mod ChangeLemmas
pub mod NoticeLemmas
