pub mod Completeness
pub mod Offers
pub mod Verdicts
