pub mod Rules
pub mod Trip
pub mod Making
pub mod Content
pub mod SameContent
mod Examples
