pub mod Asking
pub mod MapLemmas
pub mod Rising
mod Walks
