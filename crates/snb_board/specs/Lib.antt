pub mod Boards
pub mod Parts
pub mod Views
pub mod ViewSteps
pub mod Steps
