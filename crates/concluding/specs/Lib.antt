pub mod Conserving
pub mod Working
