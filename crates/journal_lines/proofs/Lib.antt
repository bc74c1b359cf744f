pub mod Common
mod SumLemmas
mod DigitLemmas
mod ByteLemmas
mod ReadLemmas
mod CallsLemmas
mod FaultLemmas
mod PartLemmas
