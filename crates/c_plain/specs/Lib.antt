pub mod Program
pub mod Machine
pub mod Operators
pub mod Calls
pub mod Rule
