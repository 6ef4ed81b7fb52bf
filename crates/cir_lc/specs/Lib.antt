pub mod Number
pub mod Coefficient
pub mod Normal
pub mod Terms
pub mod Merge
pub mod Sparse
pub mod Substitution
