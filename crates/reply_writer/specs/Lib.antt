pub mod Shapes
pub mod RecordShapes
pub mod ReplyShapes
pub mod CallShapes
pub mod LegShapes
pub mod Laws
