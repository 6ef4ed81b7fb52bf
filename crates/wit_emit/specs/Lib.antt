pub mod Asked
pub mod Emitted
pub mod Grounds
