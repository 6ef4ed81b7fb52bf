pub mod Naming
pub mod Nesting
pub mod Named
pub mod InTurn
pub mod Listing
