pub mod Commands
pub mod Reading
pub mod Printed
pub mod Session
pub mod View
pub mod Unkept
