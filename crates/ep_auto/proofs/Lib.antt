mod Wrong
mod Parts
mod Turns
mod Rules
