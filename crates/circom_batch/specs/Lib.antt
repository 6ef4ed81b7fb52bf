pub mod Items
pub mod Inputs
