mod Built
mod Spelt
mod Numbers
mod Found
mod Asked
