pub use Rattle.xorshift.specs.Xorshift
pub mod Seeds
pub mod Worked
