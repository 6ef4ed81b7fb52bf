pub mod Agreed
pub mod AskedTrees
pub mod Made
mod Turns
