pub mod Keyed
pub mod Edges
pub mod KeysApart
pub mod Mixed
pub mod Pairs
pub mod Rows
