-- Why a call has no result, and what was said then.
pub mod Fault
pub mod Said
