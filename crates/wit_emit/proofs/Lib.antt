pub mod Agreed
pub mod Chained
pub mod Ended
pub mod Numbered
pub mod ReadParts
pub mod Rows
pub mod Trees
