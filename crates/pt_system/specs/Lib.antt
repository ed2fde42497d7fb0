pub mod Standard
pub mod Sockets
pub mod Docks
