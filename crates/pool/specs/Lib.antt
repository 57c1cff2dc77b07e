pub mod Meaning
pub mod Ways
pub mod Chain
pub mod Numbers
