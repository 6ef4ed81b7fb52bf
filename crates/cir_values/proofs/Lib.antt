pub mod Once
pub mod ReadBack
pub mod Rows
pub mod Within
