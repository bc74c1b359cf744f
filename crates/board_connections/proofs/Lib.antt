pub mod AnswerLemmas
pub mod WaitingLemmas
