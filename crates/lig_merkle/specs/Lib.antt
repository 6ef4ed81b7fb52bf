pub mod Hashing
pub mod Merkle
pub mod Nodes
pub mod Shared
pub mod Levels
pub mod Binding
