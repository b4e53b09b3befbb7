mod Rows
mod Writing
mod Reading
