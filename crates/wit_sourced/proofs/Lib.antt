pub mod Constants
pub mod Ending
pub mod Finding
pub mod Left
pub mod Listed
pub mod Naming
pub mod Places
pub mod SameTrees
