pub mod Form
pub mod Operators
pub mod Powers
pub mod Prime
pub mod Rises
