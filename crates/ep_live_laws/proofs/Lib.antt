pub mod Accounts
mod All
mod Batches
mod Calls
mod Closing
mod Ended
mod Ends
mod Framed
mod Keeping
mod Numbered
mod Part
mod Points
mod Rundown
mod Shares
mod Sweeps
mod TwoThreads
