pub mod Topics
pub mod Tables
pub mod Links
