pub mod Push
pub mod Facts
pub mod Said
pub mod Below
