pub mod Grown
pub mod Links
pub mod Growing
pub mod Parts
pub mod Steps
