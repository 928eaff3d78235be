-- The machine's own words: no public contract reaches them.
pub mod ArcNumbers
pub mod Gathered
pub mod Place
