pub mod Shown
pub mod Queue
pub mod Ranked
pub mod Shaped
pub mod Judged
pub mod Table
