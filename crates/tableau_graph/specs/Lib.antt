pub mod Graph
pub mod Growing
pub mod NodeTable
pub mod Rules
pub mod TableauParts
pub mod inside
