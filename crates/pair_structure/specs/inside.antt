-- The machine's own words: no public contract reaches them.
pub mod ArcTable
pub mod FirstFailing
pub mod LabelIndex
pub mod Least
pub mod StartRow
pub mod Starts
pub mod StructureCheck
pub mod Turn
