pub mod Laws
pub mod Orders
pub mod Starts
pub mod Whole
pub mod Zips
pub mod Hands
pub mod Closing
pub mod Numbered
