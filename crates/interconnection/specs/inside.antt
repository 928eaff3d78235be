-- The machine's own words: no public contract reaches them.
pub mod Choice
pub mod EdgeTable
pub mod Labels
pub mod NetworkCheck
pub mod ProcessNumbers
