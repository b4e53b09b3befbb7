pub mod Faultless
pub mod Folds
pub mod Named
pub mod Rows
pub mod Stops
