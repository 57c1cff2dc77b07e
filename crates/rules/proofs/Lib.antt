pub mod Searches
pub mod Starts
pub mod Held
pub mod Backs
pub mod Telling
pub mod Tales
pub mod Agreeing
