pub mod Items
pub mod Messages
pub mod Within
pub mod One
