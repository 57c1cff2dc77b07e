pub mod Lines
pub mod Rounds
