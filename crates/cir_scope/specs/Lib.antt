pub mod Runnable
pub mod Counted
