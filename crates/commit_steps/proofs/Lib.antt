pub mod Adding
pub mod Borne
pub mod Contents
pub mod LogLaws
