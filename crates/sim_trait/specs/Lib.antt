pub mod Alike
pub mod Digits
pub mod Bound
pub mod Laws
pub mod Faithful
pub mod Emit
pub mod Consequences
