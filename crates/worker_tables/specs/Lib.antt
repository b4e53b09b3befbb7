pub use Rattle.contexts.specs as of_contexts
