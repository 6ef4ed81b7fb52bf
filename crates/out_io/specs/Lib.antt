pub mod Asked
pub mod Calls
pub mod Contents
pub mod Faults
pub mod Held
pub mod History
pub mod Made
pub mod Memory
