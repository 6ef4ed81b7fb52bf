pub mod Called
pub mod Executed
pub mod Having
pub mod Ports
pub mod Told
