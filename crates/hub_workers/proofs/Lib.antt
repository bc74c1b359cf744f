pub mod AnswerLemmas
pub mod Common
pub mod SeatLemmas
