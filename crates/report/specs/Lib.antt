pub mod Lines
pub mod Nodes
pub mod Report
