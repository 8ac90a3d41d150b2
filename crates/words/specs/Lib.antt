pub mod Length
pub mod Said
pub mod One
