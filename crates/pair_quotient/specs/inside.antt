-- The machine's own words: no public contract reaches them.
pub mod ClassMoves
pub mod Labelling
pub mod Moving
pub mod Naming
pub mod Numbering
pub mod Partition
pub mod Refining
pub mod Splitting
