pub mod InVain
pub mod Silent
pub mod Greeted
