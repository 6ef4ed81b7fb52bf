pub mod Counts
pub mod Net
pub mod Flow
pub mod Core
pub mod Events
pub mod Quiet
pub mod Told
pub mod Drawn
