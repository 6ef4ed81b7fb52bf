pub mod Finding
pub mod Seen
pub mod Tables
pub mod UsedPrograms
