pub mod ValueTexts
pub mod MainLines
