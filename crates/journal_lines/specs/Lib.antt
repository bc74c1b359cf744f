pub mod Sums
pub mod CallLines
pub mod LineFaults
pub mod Laws
