pub mod Order
pub mod HeldRun
pub mod Sinks
