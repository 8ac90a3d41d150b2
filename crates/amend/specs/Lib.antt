pub mod Amending
pub mod Fields
pub mod Writing
pub mod Demand1
pub mod Keying
