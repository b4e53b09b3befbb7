mod Lines
mod Passing
mod Together
