pub mod Program
pub mod Ends
pub mod Line
pub mod Sample
pub mod Laws
