mod Common
pub mod AnswerLemmas
mod WorkLemmas
