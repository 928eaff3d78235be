pub mod Bisimulation
pub mod Quotient
pub mod inside
