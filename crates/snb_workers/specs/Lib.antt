pub mod Laws
pub mod Turns
pub mod Works
pub mod WorkTurns
pub mod Crews
