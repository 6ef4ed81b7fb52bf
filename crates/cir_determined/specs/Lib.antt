pub mod Circuit
pub mod Marks
pub mod Bits
pub mod Rules
pub mod Certificate
pub mod Determined
pub mod Search
pub mod Text
