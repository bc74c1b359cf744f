pub mod Common
pub mod CodeLemmas
pub mod DigitLemmas
pub mod NameLemmas
pub mod WordLemmas
