mod Beginning
mod Floats
