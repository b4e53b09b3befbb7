pub use Rattle.meaning.specs as of_meaning
