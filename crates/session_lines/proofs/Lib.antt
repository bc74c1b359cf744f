pub mod AnswerLemmas
pub mod Common
pub mod EndedLemmas
pub mod EventLemmas
pub mod JsonLemmas
pub mod LockStepLemmas
pub mod SlotLemmas
pub mod TallyLemmas
