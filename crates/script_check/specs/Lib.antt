pub mod Refusals
pub mod Trees
pub mod Rules
pub mod Inference
pub mod Branches
pub mod Scopes
pub mod Typings
pub mod Sizes
pub mod Scripts
pub use Rattle.script_syntax.specs as of_script_syntax
