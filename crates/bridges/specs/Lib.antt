pub mod Kinds
pub mod One
pub mod Climbed
pub mod Supplied
pub mod Routine
pub mod Steps
