pub mod Replay
pub mod Safety
pub mod KeptKinds
pub mod Keeping
pub mod Ids
pub mod Mains
pub mod Given
pub mod Agreeing
pub mod Dens
pub use Rattle.meaning.proofs as of_meaning
