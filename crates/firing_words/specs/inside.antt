-- The machine's own words: no public contract reaches them.
pub mod Plays
pub mod Said
pub mod Filling
pub mod Dealing
pub mod Judging
