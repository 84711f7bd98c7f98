pub mod Kept
pub mod Standing
pub mod Room
