pub mod Known
pub mod Views
