pub mod Queue
pub mod Pipes
pub mod Rings
