pub mod ArcNumbering
pub mod ArcTexts
pub mod CommandOrder
pub mod Gathering
pub mod Moving
pub mod OnePairState
pub mod Places
pub mod Sides
