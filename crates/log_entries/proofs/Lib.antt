pub use Rattle.held.proofs.of_sequence as of_sequence
