pub mod Actions
pub mod Operations
pub mod Step
pub mod View
