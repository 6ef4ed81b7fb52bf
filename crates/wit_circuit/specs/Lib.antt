pub mod Made
pub mod Ending
pub mod Told
pub mod Coded
pub mod Whole
