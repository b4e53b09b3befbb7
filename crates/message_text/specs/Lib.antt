pub mod Messages
pub mod Envelopes
pub mod Sent
pub mod Text
