pub mod Flows
pub mod Turned
pub mod Rests
pub mod Again
