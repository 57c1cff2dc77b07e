pub mod Queues
pub mod Shown
