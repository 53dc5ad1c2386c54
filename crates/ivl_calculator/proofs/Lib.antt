pub mod Determined
pub mod Elements
pub mod Questions
pub mod Registers
pub mod Runs
pub mod Writes
