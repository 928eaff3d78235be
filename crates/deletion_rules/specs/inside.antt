-- The machine's own words: no public contract reaches them.
pub mod Cursors
pub mod Edges
pub mod Prefix
pub mod Picking
pub mod PositionOrder
pub mod Spread
pub mod Stable
pub mod Tests
pub mod Thinning
