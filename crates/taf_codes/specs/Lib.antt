pub mod Codes
pub mod Counting
pub mod Padded
pub mod Standard
pub mod UnitDigits
pub mod Words
pub mod Equality
mod Examples
