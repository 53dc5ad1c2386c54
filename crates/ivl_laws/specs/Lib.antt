pub mod Sets
pub mod Runs
pub mod Counts
pub mod Bounds
pub mod Arithmetic
pub mod Walks
pub mod Families
