pub mod Firsts
pub mod Hexes
pub mod Worded
