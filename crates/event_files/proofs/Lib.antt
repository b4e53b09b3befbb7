mod Decimals
pub mod Marks
mod Objects
mod EventTexts
mod Settles
pub mod Rows
pub mod Readers
pub mod Histories
mod Logs
mod LineNumbers
mod BothFormats
