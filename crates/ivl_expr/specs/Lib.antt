pub mod Variables
pub mod Values
pub mod Nodes
pub mod NodeSets
