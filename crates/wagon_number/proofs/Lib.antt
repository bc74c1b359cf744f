pub mod Common
pub mod DigitLemmas
pub mod PairLemmas
pub mod TextLemmas
pub mod MarkLemmas
pub mod ValidityLemmas
pub mod CheckDigitLemmas
