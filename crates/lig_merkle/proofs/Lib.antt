pub mod Known
pub mod Leading
pub mod Paths
pub mod Places
pub mod Walk
pub mod Binding
pub mod SharedBinding
