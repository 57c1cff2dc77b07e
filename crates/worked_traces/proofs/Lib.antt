pub mod Queues
pub mod Trees
pub mod Players
pub mod Pools
pub mod Pipes
