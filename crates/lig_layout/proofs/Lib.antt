pub mod Widths
pub mod Sums
pub mod Wired
pub mod Forms
pub mod Products
pub mod Solving
pub mod Exact
