pub mod Programs
pub mod Splitting
pub mod Loading
pub mod Resting
pub mod Asking
