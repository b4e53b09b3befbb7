pub mod Plain
pub mod Said
pub mod Reports
