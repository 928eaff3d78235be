pub mod Canonical
pub mod FormulaText
pub mod Long
pub mod Sets
pub mod Sign
pub mod Token
pub mod Tree
pub mod inside
