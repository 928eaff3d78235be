pub mod Around
pub mod Graph
pub mod Laws
pub mod Network
pub mod NetworkFault
pub mod Shape
pub mod inside
