mod Lists
mod Floats
