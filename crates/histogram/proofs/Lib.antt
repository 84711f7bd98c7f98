pub mod Trimming
pub mod Reading
