pub mod Choice
pub mod Crews
pub mod Draws
pub mod Laws
pub mod Limits
pub mod Policies
pub mod Workers
pub mod inside
