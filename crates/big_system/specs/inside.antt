-- The machine's own words: no public contract reaches them.
pub mod Locals
