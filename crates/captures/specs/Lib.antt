pub mod First
pub mod Hex
pub mod Reports
pub mod Tallies
pub mod Words
