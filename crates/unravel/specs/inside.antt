-- The machine's own words: no public contract reaches them.
pub mod Alive
pub mod Choice
pub mod Growing
pub mod Joined
pub mod Joining
pub mod Pursuit
pub mod Targets
pub mod Unravelled
