pub mod Admissions
pub mod FirstAnswers
pub mod FirstLines
pub mod Fronts
pub mod Guards
pub mod Hellos
pub mod KeyFiles
pub mod Keys
