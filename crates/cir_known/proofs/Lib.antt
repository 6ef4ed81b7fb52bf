pub mod Components
pub mod Members
pub mod Rising
pub mod Lists
