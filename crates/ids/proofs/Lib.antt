pub mod Numbers
pub mod Objects
pub use Rattle.meaning.proofs as of_meaning
