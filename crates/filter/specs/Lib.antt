pub mod Filtered
pub mod Laws
pub mod Confirmed
pub mod Settling
pub mod Restated
pub mod One
pub mod Demand2
pub mod Rejected
