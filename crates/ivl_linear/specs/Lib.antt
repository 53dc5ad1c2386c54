pub mod Ends
pub mod Laws
pub mod Linear
pub mod Rests
