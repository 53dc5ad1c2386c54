pub mod Helps
pub mod Answering
