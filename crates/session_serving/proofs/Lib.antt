pub mod Common
pub mod CutLemmas
pub mod EventLemmas
pub mod WriteLemmas
pub mod ServeLemmas
pub mod EndLemmas
