-- The machine's own words: no public contract reaches them.
pub mod CodeBack
pub mod Known
pub mod Next
pub mod Operators
pub mod Predecessors
pub mod Roots
pub mod Spread
pub mod Walking
