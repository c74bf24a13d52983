pub mod Words
pub mod Ends
