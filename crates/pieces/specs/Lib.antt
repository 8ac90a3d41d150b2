pub mod Holds
pub mod Laws
pub mod One
