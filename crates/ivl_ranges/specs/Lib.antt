pub mod Indexes
pub mod Ranges
pub mod Printed
pub mod Helps
pub mod Answering
