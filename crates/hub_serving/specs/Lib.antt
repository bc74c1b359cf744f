pub mod JournaledHubs
pub mod ServedHubs
