pub mod Names
pub mod SentPositions
