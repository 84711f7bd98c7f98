pub mod Descent
pub mod OwnPiece
pub mod Rising
pub mod Keeping
pub mod Drafts
