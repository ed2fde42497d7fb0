mod AsBox
mod Counts
mod Definitions
mod Handles
mod Listings
mod Pulling
mod Recordings
mod Refusing
