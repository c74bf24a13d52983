pub mod Copies
pub mod Laws
