pub mod Drawn
pub mod Ends
pub mod Summing
pub mod Widths
