-- What the contracts over any source, sink, link, dock and caller speak of.
pub mod Faults
pub mod Taken
pub mod Sides
pub mod Arrivals
-- What the objects in memory are seen as.
pub mod Memory
