pub mod Settling
pub mod Ending
pub mod Laws
pub mod Rejected
pub mod Calls
pub mod Demand3
