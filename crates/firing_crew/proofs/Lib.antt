pub mod Away
pub mod Begun
pub mod ByPlace
pub mod Entries
pub mod Leaving
pub mod Locals
pub mod Own
pub mod Standing
