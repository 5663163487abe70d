pub mod Commands
pub mod CommandFacts
pub mod Laws
pub mod Options
pub mod Taken
pub mod Words
