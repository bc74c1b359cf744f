pub mod JoinLemmas
pub mod MadeLemmas
pub mod PartLemmas
