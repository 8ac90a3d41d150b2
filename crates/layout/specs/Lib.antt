pub mod Layout
pub mod Rows
pub mod Checked
pub mod Sound
