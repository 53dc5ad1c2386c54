pub mod Bits
pub mod Held
