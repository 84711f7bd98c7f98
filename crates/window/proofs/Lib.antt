pub mod Arrivals
pub mod Refusals
pub mod Estimates
pub mod Bounded
pub mod Newest
pub mod NewestFirst
pub mod Rotation
