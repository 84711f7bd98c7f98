pub mod Faults
pub mod Pieces
pub mod Replies
pub mod Writing
pub mod Steps
pub mod Worked
