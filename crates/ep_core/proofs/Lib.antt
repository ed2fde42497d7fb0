mod Ending
mod Machines
mod Once
mod Run
mod Taking
mod Writing
mod Working
