pub mod Columns
pub mod Laws
pub mod WriteLaws
pub mod Lines
pub mod Reading
pub mod Writing
