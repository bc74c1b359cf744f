pub mod Advances
pub mod Bytes
pub mod Faults
pub mod Output
pub mod Serving
