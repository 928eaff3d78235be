pub mod Lowest
pub mod Reading
pub mod Rows
pub mod TextLaws
