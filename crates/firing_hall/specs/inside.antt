-- The machine's own words: no public contract reaches them.
pub mod Locks
pub mod Stars
pub mod Replies
pub mod Dealing
pub mod Taking
pub mod Gathering
