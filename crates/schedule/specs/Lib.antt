pub mod Causes
pub mod Records
pub mod Kinds
pub mod Refusals
pub mod Reading
pub mod Views
pub mod Buffers
pub mod Lines
