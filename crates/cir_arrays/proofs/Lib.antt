pub mod Products
pub mod Lists
pub mod Runs
pub mod Exits
pub mod Indices
pub mod Reaching
pub mod PartsRead
pub mod Writes
