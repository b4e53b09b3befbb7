pub mod Expressions
pub mod Statements
pub mod Functions
pub mod Program
