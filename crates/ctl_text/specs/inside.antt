-- The machine's own words: no public contract reaches them.
pub mod ItemReading
pub mod Judged
pub mod LineCause
pub mod Made
pub mod Pairs
pub mod Sound
pub mod View
