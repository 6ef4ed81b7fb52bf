pub mod Texts
pub mod Lifting
pub mod Closing
pub mod SimpleRows
pub mod StatementRows
pub mod Bodies
pub mod Circuits
