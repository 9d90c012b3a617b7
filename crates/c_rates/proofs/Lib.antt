mod Words
pub mod Bodies
pub mod Paid
mod Trees
pub mod Scopes
pub mod Expressions
pub mod Statements
pub mod Charges
