pub mod AnswerLemmas
pub mod OfferTableLemmas
