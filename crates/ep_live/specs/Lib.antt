pub mod Live
pub mod Made
pub mod Free
pub mod Stands
pub mod RowSet
pub mod Outside
pub mod Written
