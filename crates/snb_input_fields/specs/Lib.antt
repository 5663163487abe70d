pub mod Cells
pub mod Fields
pub mod Laws
pub mod Reading
