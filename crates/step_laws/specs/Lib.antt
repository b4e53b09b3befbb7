pub mod Counting
pub mod Cursors
pub mod Later
pub mod Limits
pub mod Opens
pub mod Spending
pub use Rattle.protocol.specs.of_event_log as of_event_log
pub use Rattle.protocol.specs as of_protocol
pub use Rattle.protocol.specs.of_values as of_values
