-- The machine's own words: no public contract reaches them.
pub mod Showing
pub mod Telling
pub mod View
