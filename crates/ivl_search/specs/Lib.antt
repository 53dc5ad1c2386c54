pub mod Best
pub mod Budget
pub mod Halves
pub mod Nodes
pub mod Points
