pub mod Faults
pub mod JournaledShifts
pub mod Laws
pub mod Shifts
