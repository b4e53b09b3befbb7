pub mod Attempts
pub mod Codes
pub mod Texts
pub use Rattle.meaning.specs as of_meaning
