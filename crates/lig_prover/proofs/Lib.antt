pub mod Adding
pub mod Coset
pub mod Encodings
pub mod Made
pub mod Placing
pub mod Points
