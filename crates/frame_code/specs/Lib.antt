pub mod Views
pub mod Operands
pub mod Sizes
pub use Rattle.script_check.specs as of_script_check
pub use Rattle.script_check.specs.of_script_syntax as of_script_syntax
