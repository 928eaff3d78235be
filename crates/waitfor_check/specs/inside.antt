-- The machine's own words: no public contract reaches them.
pub mod Begins
pub mod Calm
pub mod Fits
pub mod Rows
pub mod ShapeKeys
pub mod Walk
