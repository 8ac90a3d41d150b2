pub mod Judged
pub mod Marked
pub mod Ready
pub mod Judging
pub mod Concluded
pub mod Laws
pub mod One
