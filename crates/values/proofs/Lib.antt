pub mod Lawfulness
