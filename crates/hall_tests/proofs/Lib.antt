pub mod Gated
pub mod Sliced
