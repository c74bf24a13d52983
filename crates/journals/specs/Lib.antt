pub mod Faults
pub mod Journals
pub mod Laws
pub mod Makes
pub mod Runs
