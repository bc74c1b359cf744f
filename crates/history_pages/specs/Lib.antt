pub mod Layout
pub mod Paged
