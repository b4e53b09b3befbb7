pub mod Digits
pub mod Ends
mod Marks
mod Said
