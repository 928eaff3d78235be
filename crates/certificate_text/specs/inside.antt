-- The machine's own words: no public contract reaches them.
pub mod Saying
pub mod ShapeKeys
pub mod Sound
pub mod View
