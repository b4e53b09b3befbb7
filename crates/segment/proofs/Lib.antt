mod Beyond
mod Growing
mod Safe
mod Lasts
