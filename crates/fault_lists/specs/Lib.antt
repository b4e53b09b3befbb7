pub mod Firsts
pub mod Kinds
pub mod Lists
pub mod Ends
pub mod Tables
pub use Rattle.faulted_history.specs as of_faulted_history
