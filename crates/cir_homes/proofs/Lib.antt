pub mod Filled
pub mod Housed
pub mod Starting
