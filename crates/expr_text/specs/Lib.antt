pub mod ExpressionReading
pub mod Expressions
pub mod Numbers
pub mod Pieces
pub mod SeenExpressions
pub mod Values
pub mod Variables
pub mod Windows
