pub mod Commands
pub mod Laws
pub mod Permission
pub mod SkeletonText
pub mod inside
