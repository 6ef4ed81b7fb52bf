pub mod Arrays
pub mod Cells
pub mod Emits
pub mod Housed
pub mod Means
pub mod Shows
pub mod Steps
