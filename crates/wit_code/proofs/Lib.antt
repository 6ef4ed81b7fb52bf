pub mod Ends
pub mod Runs
pub mod Stack
pub mod Clearing
pub mod Numbers
