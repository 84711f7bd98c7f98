pub mod Keys
pub mod Kept
pub mod Holding
pub mod Stepping
