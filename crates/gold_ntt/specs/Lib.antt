pub mod Coset
pub mod Polynomial
pub mod Reversal
pub mod Transform
