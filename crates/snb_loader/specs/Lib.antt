pub mod Dataset
pub mod Lanes
pub mod Laws
pub mod Order
pub mod Params
pub mod Tables
