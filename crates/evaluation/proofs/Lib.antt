pub mod Conversions
pub mod Main
pub mod Results
pub mod Standing
pub mod TaskRuns
pub use Rattle.frames.proofs as of_frames
