pub mod Kept
pub mod Claims
pub mod ClaimLaws
pub mod Book
pub mod Heads
pub mod Asked
