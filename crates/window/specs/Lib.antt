pub mod Stamps
pub mod Settings
pub mod Below
pub mod Meaning
pub mod Causes
pub mod Faults
