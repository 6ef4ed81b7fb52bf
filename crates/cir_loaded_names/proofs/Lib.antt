pub mod Identifiers
pub mod Tokens
pub mod Naming
pub mod Definitions
pub mod Loaded
