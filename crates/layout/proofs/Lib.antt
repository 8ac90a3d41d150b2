pub mod Laws
pub mod Image
pub mod Worked
