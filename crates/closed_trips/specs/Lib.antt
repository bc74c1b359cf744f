pub mod ClosedNames
pub mod Sides
pub mod Closed
