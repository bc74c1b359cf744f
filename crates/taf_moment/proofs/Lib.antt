pub mod Common
pub mod PartLemmas
pub mod DateLemmas
pub mod LetterLemmas
pub mod TableLemmas
pub mod TextLemmas
