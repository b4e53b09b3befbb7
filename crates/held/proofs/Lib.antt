pub use Rattle.sequence.proofs as of_sequence
