pub mod Serials
pub mod Faults
pub mod Held
pub mod Causes
pub mod Outcomes
pub mod Opening
pub mod Lists
pub mod Serving
