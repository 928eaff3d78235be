pub mod Lines
pub mod Pieces
pub mod Spaced
pub mod View
pub mod Words
pub mod inside
