mod Written
mod Taken
mod Enough
mod Buffers
