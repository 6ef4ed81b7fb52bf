pub mod Lifts
pub mod Made
pub mod Turned
