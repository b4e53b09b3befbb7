pub mod Births
pub mod Dereferenced
pub use Rattle.values.specs.of_ids as of_ids
pub use Rattle.values.specs.of_meaning as of_meaning
pub use Rattle.values.specs as of_values
