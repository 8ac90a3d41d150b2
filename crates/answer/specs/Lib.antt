pub mod Reply
pub mod Table
pub mod Laws
pub mod Text
