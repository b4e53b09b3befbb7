pub mod Entries
pub mod Words
pub mod Events
pub mod Breaks
pub mod Holding
pub mod Settings
pub mod Causes
pub mod Rules
pub mod Legal
pub mod Serial
pub mod Books
pub mod Laws
pub mod Extends
pub mod Commits
pub mod Claims
pub mod Sane
pub mod Fresh
pub use Rattle.log_entries.specs.of_held as of_held
pub use Rattle.script_laws.specs.of_meaning as of_meaning
pub use Rattle.log_entries.specs.of_task_spec as of_task_spec
pub use Rattle.log_entries.specs.of_values as of_values
