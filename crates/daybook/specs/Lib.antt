pub mod Book
pub mod Boards
pub mod Promises
pub mod Runs
