pub mod Nodes
pub mod Kept
pub mod Questions
pub mod Growth
pub mod Grown
pub mod Copying
