-- The parts of the rule, each with its name.
pub mod Callers
pub mod Entries
pub mod Locks
pub mod Showing
pub mod Owing
pub mod Knowing
pub mod Seen
pub mod Notes
