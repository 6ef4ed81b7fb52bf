pub mod Bodies
pub mod Coded
pub mod Mains
pub mod Renewed
pub mod Turns
pub mod Undone
