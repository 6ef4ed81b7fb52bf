pub mod Asserting
pub mod LogSteps
