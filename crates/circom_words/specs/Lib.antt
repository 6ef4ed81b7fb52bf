pub mod Forms
pub mod Matches
pub mod Numbers
pub mod Ranges
pub mod Words
