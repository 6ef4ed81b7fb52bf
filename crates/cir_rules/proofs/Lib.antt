pub mod Lists
pub mod Reaching
pub mod Shaping
pub mod Judging
pub mod Called
pub mod Placing
