pub mod Leads
pub mod Given
pub mod Grows
pub mod Assigns
pub mod Finds
