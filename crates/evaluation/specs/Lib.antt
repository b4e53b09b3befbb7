pub mod TaskValues
pub mod Pieces
pub use Rattle.frames.specs as of_frames
pub use Rattle.frames.specs.of_script_check as of_script_check
