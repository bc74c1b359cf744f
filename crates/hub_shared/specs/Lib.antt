pub mod Seats
pub mod Settling
pub mod Marks
pub mod Orders
pub mod Looks
