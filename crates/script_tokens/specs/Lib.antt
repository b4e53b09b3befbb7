pub mod Tokens
pub mod Views
pub mod Bytes
pub mod Spelling
pub mod Texts
pub mod Refusals
pub mod Places
pub mod Lexing
