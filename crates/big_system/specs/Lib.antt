pub mod Graphs
pub mod Limits
pub mod Philosophers
pub mod Summary
pub mod Systems
pub mod inside
