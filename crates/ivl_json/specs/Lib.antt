pub mod Faults
pub mod Reading
pub mod SetReading
pub mod Writing
pub mod OneWay
