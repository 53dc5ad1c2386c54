pub mod Members
mod Bytes
