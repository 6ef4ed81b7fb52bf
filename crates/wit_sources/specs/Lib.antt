pub mod Collected
pub mod Fronts
pub mod Given
pub mod Runs
pub mod Statements
pub mod Told
