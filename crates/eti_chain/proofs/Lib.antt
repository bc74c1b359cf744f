pub mod Common
pub mod EstimateLemmas
pub mod CalendarLemmas
pub mod LegEndLemmas
pub mod EstimateStateLemmas
pub mod EstimateTurnLemmas
