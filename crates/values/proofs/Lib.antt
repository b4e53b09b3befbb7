pub mod Rows
pub mod ListedLaws
pub mod SameLists
pub mod Counting
