pub mod CloneLemmas
pub mod SameLemmas
pub mod SameReplyLemmas
