pub mod Answers
pub mod Cause
pub mod Grammar
pub mod inside
