pub mod SelectionLemmas
pub mod FindLemmas
pub mod ShownLemmas
