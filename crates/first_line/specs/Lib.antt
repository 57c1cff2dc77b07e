pub mod Choices
pub mod Cuts
pub mod Head
pub mod Numbers
pub mod Shown
