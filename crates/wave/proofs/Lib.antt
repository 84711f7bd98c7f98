pub mod Places
pub mod Growing
pub mod Laws
pub mod Walking
pub mod Seeing
pub mod Looking
