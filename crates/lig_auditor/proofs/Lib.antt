pub mod Adding
pub mod Folding
pub mod Matching
pub mod RightSums
pub mod Systems
pub mod Concluding
pub mod Weights
