pub mod Laws
pub mod Replay
pub mod Waiting
pub mod Worked
