pub mod Texts
pub mod SmallNumbers
pub mod Writing
pub mod Flat
pub mod Tapes
pub mod JsonValues
pub mod FlatText
