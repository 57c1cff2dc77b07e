pub mod Values
pub mod Reading
pub mod Steps
pub mod Grammar
pub mod Script
