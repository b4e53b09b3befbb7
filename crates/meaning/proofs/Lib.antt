pub mod BirthLaws
pub mod ResultLaws
pub mod Names
pub mod LoopExamples
